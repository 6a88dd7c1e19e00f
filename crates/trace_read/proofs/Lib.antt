mod Document
mod Listed
mod Newline
mod ReadBack
mod Refused
mod Rest
mod Tallies
mod Written
