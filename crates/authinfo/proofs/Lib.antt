pub mod MemberLaws
pub mod OnePassLaws
pub mod WordLaws
pub mod ReadingLaws
pub mod FillingLaws
pub mod AskLaws
pub mod Examples
