-- Laws about the neighbours of a token.
pub mod LeadingLaws
pub mod OfferLaws
pub mod AgreeLaws
pub mod TallyLaws
pub mod SummaryLaws
pub mod MeetLaws
pub mod Examples
pub mod FoundLaws
