pub mod Nodes
pub mod Trees
pub mod Groups
pub mod Leaves
pub mod Searches
pub mod WorkedTrees
