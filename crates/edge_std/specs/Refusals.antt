use Rattle.std.specs.declared.io.ErrorKind.{ErrorKind}
use Rattle.std.specs.declared.io.ErrorKind.TheVariants as kind
use Rattle.edge_traits.specs.declared.shelves.FetchError.{FetchError}
use Rattle.edge_traits.specs.declared.shelves.FetchError.TheVariants as fetch

-- what is answered where the system opens no file
abbrev pub unopened : ErrorKind → FetchError
unopened kind.NotFound = fetch.Absent
unopened kind.OutOfMemory = fetch.Memory
unopened _ = fetch.Failed

-- what is answered where an open file gives no more bytes: it is there, so it is never absent
abbrev pub unread : ErrorKind → FetchError
unread kind.OutOfMemory = fetch.Memory
unread _ = fetch.Failed

-- an answer to a fault in reading: of the file it says nothing
abbrev pub IsUnread : FetchError → Type 0
IsUnread fetch.Memory = Unit {0}
IsUnread fetch.Failed = Unit {0}
IsUnread _ = ⊥
