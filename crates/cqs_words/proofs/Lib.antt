pub mod PackingLaws
pub mod CellLaws
pub mod StateLaws
pub mod CrewLaws
pub mod HeadLaws
pub mod SegmentLaws
pub mod WaitersLaws
