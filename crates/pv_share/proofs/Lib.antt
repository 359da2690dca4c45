mod Kernels
pub mod ShareLaws
mod ShareMeanings
