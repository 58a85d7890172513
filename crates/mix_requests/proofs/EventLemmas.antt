-- One event more, and its pair.
use Rattle.std.proofs.Common.{◌≡◌, List, [], ◌∷◌, ◌++◌, All}
use Rattle.std.proofs.lemmas.List.{map-append}
use Rattle.std.proofs.lemmas.List.Elements.{All-push}
use Rattle.mix_events.specs.declared.twin.Twin.{Twin}
use Rattle.mix_requests.specs.Twins.{IsTwin, queued_in}

pub queued_more : (twins : List Twin) (t : Twin) →
    queued_in (twins ++ t ∷ []) ≡ queued_in twins ++ t.queued ∷ []
queued_more twins t = map-append (λ (u : Twin). u.queued) twins (t ∷ [])

pub twins_more : (twins : List Twin) (t : Twin) → All IsTwin twins → t.told ≡ t.queued →
    All IsTwin (twins ++ t ∷ [])
twins_more twins t all same = All-push IsTwin twins t all same
