pub mod LoggedSteps
pub mod LoggedChains
pub mod LoggedOpening
pub mod HandedOn
pub mod HeldTheorems
