pub mod Calls
pub mod AnswerPlaces
pub mod Outcomes
pub mod RecordCalls
pub mod Shown
pub mod CallHolds
pub mod RunHolds
