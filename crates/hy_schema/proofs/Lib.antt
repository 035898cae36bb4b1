pub mod ChangedLists
pub mod ConditionLaws
pub mod KeyLaws
pub mod KeptConditionLaws
