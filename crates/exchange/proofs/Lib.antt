mod Keys
mod Lengths
mod Answered
mod Returned
