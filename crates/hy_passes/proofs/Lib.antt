pub mod Beginnings
pub mod Lists
mod Steps
mod Totals
pub mod SerialLaws
mod AgreementLaws
mod Telling
