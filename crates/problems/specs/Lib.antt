pub mod Files
pub mod FileProblem
pub mod NlSetting
pub mod Problem
pub mod MpsSetting
