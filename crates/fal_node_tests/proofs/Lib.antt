mod Rests
mod Stays
