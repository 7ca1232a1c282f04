mod Firsts
mod Moved
