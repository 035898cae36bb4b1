pub mod ListLaws
pub mod KeyLaws
pub mod ThereLaws
pub mod RefusalLaws
pub mod FaultLaws
