pub mod ByteLaws
pub mod RowLaws
pub mod JoinLaws
pub mod TableLaws
pub mod CountLaws
pub mod OrderLaws
pub mod ChunkLaws
