mod Covering
mod Insides
mod Lists
mod Shares
mod Steps
