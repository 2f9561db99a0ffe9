pub mod ReadBack
pub mod Elements
pub mod SacBack
