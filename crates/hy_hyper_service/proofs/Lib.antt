pub mod LinesLaws
pub mod RoundLaws
pub mod StayLaws
pub mod KeepingLaws
pub mod ServiceLaws
pub mod OpenLaws
