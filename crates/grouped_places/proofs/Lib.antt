mod Rising
pub mod Finding
