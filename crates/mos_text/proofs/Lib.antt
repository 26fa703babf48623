mod AppendedLemmas
mod EntryLemmas
mod FilesLemmas
