pub mod MediaTimes
