-- Laws of the columns of a data record.
pub mod PeerLaws
pub mod ShapeLaws
pub mod ColumnLaws
pub mod DataLaws
pub mod StretchLaws
