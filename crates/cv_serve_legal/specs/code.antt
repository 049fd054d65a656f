-- Words of the proof that a service is legal.
pub mod Segment
