pub mod KannalaBrandt
pub mod AsWritten
