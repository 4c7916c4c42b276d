pub mod TableLaws
pub mod RankLaws
