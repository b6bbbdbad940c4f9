mod Computed
mod ComputedLinks
