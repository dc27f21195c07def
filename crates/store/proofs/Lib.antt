pub mod LayoutLaws
pub mod FineLaws
pub mod ViewLaws
pub mod ShapeLaws
pub mod RowLaws
pub mod OpenLaws
pub mod AreaLaws
pub mod PartLaws
