mod Mapped
mod WordLemmas
mod UnitLemmas
mod Plans
mod TextLemmas
mod Requests
mod Calls
