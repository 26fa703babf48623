mod Codecs
mod FieldCodecs
mod EntryCodecs
mod CodeCodecs
mod Storing
mod ImageCodecs
mod Fronts
