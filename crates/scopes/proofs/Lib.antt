mod KnownNames
mod Lists
mod SameNames
