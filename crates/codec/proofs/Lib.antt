mod Below
mod Telegrams
mod Written
