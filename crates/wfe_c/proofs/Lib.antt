mod AsBox
mod Counting
mod Handles
mod Seating
