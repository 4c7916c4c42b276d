pub mod CopyLaws
pub mod FlatLaws
pub mod CallLaws
