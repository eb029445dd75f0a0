pub mod ReportsGoOn
pub mod NotesGoOn
pub mod GoesOn
