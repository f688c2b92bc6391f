-- An entry that may stand at a place has a payload that fits the schema, and a number in range.
use Rattle.std.proofs.Common.{◌≡◌, true, refl}
use Rattle.ring_types.specs.declared.entries.Entry.{Entry}
use Rattle.ring_types.specs.declared.entries.Payload.{Payload}
use Rattle.ring_types.specs.declared.entries.Payload.TheVariants as payload
use Rattle.ring_types.specs.declared.entries.Place.{Place}
use Rattle.ring_types.specs.declared.schemas.Schema.{Schema}
use Rattle.ring_types.specs.Rows.{payload_fits}
use Rattle.entry_group.specs.Laws.{FitsPayload, StandsAt}

fits_there : (schema : Schema) (p : Payload) → FitsPayload schema p → payload_fits schema p ≡ true
fits_there schema payload.NoOp h = refl
fits_there schema payload.Rotate h = refl
fits_there schema (payload.Txn t) h = rw (h.fit, h.number) refl

pub payload_fits_there : (schema : Schema) (p : Place) (e : Entry) → StandsAt schema p e → payload_fits schema e.payload ≡ true
payload_fits_there schema p e stands = fits_there schema e.payload stands.payload
