pub mod JoinedAreas
pub mod JoinedNotes
pub mod JoinedReports
pub mod GroupedReplies
pub mod Numbers
