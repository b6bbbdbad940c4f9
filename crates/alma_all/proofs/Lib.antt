mod WordLemmas
mod WordCourses
mod Returns
mod Plans
mod Listings
mod Requests
mod Calls
