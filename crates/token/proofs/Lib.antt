-- Laws about what a token says.
pub mod FewLaws
pub mod SignifierLaws
pub mod AccountLaws
pub mod ReferenceLaws
pub mod Examples
pub mod ReferenceExamples
