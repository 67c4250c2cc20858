pub mod CommandText
pub mod Commands
pub mod Table
pub mod CommandLaws
pub mod Tables
