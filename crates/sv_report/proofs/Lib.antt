pub mod Due
pub mod EventLines
