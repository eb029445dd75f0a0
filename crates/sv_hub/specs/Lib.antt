pub mod Attachments
pub mod Lives
