pub mod BytesLaws
pub mod EndLaws
pub mod TakesLaws
pub mod FillsLaws
pub mod ReceivedLaws
pub mod HearsLaws
