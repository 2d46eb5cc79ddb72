mod Lists
mod MadeParts
mod Judging
mod KnownSoFar
mod Staying
mod Untouched
