pub mod HeadLaws
pub mod DecisionLaws
pub mod AgreeLaws
pub mod AskLaws
pub mod PassLaws
