pub mod Duties
