pub mod RestLaws
mod RestMeanings
mod ContinueMeanings
pub mod RestDone
