pub mod FragmentLaws
