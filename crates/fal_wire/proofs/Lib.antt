pub mod Laws
pub mod NumberLaws
pub mod ListLaws
pub mod FieldLaws
pub mod RowLaws
pub mod MessageLaws
pub mod ReadingLaws
pub mod LetterLaws
pub mod Loop
mod ReadNames
