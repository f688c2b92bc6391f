mod NextEntries
