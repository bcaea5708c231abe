mod Firsts
mod Pastes
mod Empties
mod Rounds
mod Rewrites
