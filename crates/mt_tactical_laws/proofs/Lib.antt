mod Answers
mod Greater
mod Law
mod Laws
mod Examples
