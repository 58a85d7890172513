-- The flags that the walks from channels and the preview put on.
use Rattle.std.proofs.Common.{◌≡◌, ℕ, ◌+◌, ◌<◌, Bool, true, false, ◌&&◌, ◌||◌, List, [], ◌∷◌, ◌++◌}
use Rattle.std.proofs.Common.{length, get_or, drop, map, refl, ap, sym, ◌∙◌}
use Rattle.std.proofs.Common.{append_assoc, flat_map, option_to_list, replicate, find, is_some}
use Rattle.mix_model.specs.declared.row.Row.{Row}
use Rattle.std.specs.List.{list_all, list_any}
use Rattle.std.proofs.lemmas.List.{drop_more}
use Rattle.mix_model.specs.Rows.{serials_of, is_at}
use Rattle.mix_model.specs.State.{GraphState, Channel}
use Rattle.mix_model.specs.Lookups.{named_by, has_row, is_row, channel_roots}
use Rattle.mix_model.specs.Walks.{is_active, is_showing, preview_row}
use Rattle.mix_model.proofs.SetLemmas.{and_first, and_second}
use Rattle.mix_model.proofs.DistinctLemmas.{serials_there}
use Rattle.mix_store.specs.Searched.{flagged_also, reached_in}
use Rattle.mix_store.proofs.FlagLemmas.{flags_none, flags_both, reached_both}

-- no root
pub reached_none : (rows : List Row) (roots : List ℕ) (flags : List Bool) → roots ≡ [] →
    flagged_also (reached_in rows roots) rows flags ≡ flags
unfolding reached_in
reached_none rows roots flags none =
    rw none (flags_none (reached_in rows []) (λ x. refl) rows flags)

channel_apart : (channels : List Channel) (i : ℕ) (channel : Channel) → i < length channels →
    channel ≡ get_or channels i channel →
    option_to_list channel.0
    ++ (option_to_list channel.1 ++ flat_map named_by (drop (i + 1) channels))
    ≡ flat_map named_by (drop i channels)
channel_apart channels i channel below there = rw (drop_more channels i channel below, ← there)
    (sym (append_assoc (option_to_list channel.0) (option_to_list channel.1)
    (flat_map named_by (drop (i + 1) channels))))

-- one channel more, with both rows that it may name
pub channel_step : (rows : List Row) (channels : List Channel) (i : ℕ) (channel : Channel)
    (flags first second all : List Bool) → i < length channels →
    channel ≡ get_or channels i channel →
    first ≡ flagged_also (reached_in rows (option_to_list channel.0)) rows flags →
    second ≡ flagged_also (reached_in rows (option_to_list channel.1)) rows first →
    flagged_also (reached_in rows (flat_map named_by (drop i channels))) rows flags ≡ all →
    flagged_also (reached_in rows (flat_map named_by (drop (i + 1) channels))) rows second ≡ all
channel_step rows channels i channel flags first second all below there one two so_far =
    let rest : List ℕ = flat_map named_by (drop (i + 1) channels) in
    rw (two, one) (
    flags_both rows (option_to_list channel.1) rest
    (flagged_also (reached_in rows (option_to_list channel.0)) rows flags)
    ∙ flags_both rows (option_to_list channel.0) (option_to_list channel.1 ++ rest) flags
    ∙ ap (λ roots. flagged_also (reached_in rows roots) rows flags)
    (channel_apart channels i channel below there) ∙ so_far
    )

-- from flags that are all off
pub flags_from_off : (p : ℕ → Bool) (rows : List Row) →
    flagged_also p rows (replicate (length rows) false) ≡ map (λ r. p r.serial) rows
flags_from_off p [] = refl
flags_from_off p (row ∷ rows) = ap (λ fs. p row.serial ∷ fs) (flags_from_off p rows)

-- it makes no difference to ask whether a row is one
rows_are_rows : (p : ℕ → Bool) (all rows : List Row) →
    list_all (has_row all) (serials_of rows) ≡ true →
    map (λ r. p r.serial) rows ≡ map (λ r. has_row all r.serial && p r.serial) rows
rows_are_rows p all [] there = refl
rows_are_rows p all (row ∷ rows) there =
    let here : has_row all row.serial ≡ true = and_first _ _ there in
    rw here (ap (λ bs. p row.serial ∷ bs) (rows_are_rows p all rows (and_second _ _ there)))

-- the flags are on where a walk leads
pub flags_reached : (rows : List Row) (roots : List ℕ) →
    flagged_also (reached_in rows roots) rows (replicate (length rows) false)
    ≡ map (λ r. has_row rows r.serial && reached_in rows roots r.serial) rows
flags_reached rows roots = flags_from_off (reached_in rows roots) rows
    ∙ rows_are_rows (reached_in rows roots) rows rows (serials_there rows)

-- what one of the channels leads to is what all that they name lead to
channels_any : (rows : List Row) (channels : List Channel) (x : ℕ) →
    reached_in rows (flat_map named_by channels) x
    ≡ list_any (λ c. reached_in rows (named_by c) x) channels
unfolding reached_in
channels_any rows [] x = refl
channels_any rows (channel ∷ channels) x =
    reached_both rows (named_by channel) (flat_map named_by channels) x
    ∙ ap (λ b. reached_in rows (named_by channel) x || b) (channels_any rows channels x)

-- activity as the search finds it, and showing
pub active_reached : (g : GraphState) (x : ℕ) → is_active g x ≡ (is_some (find (is_at x) g.rows)
    && list_any (λ c. reached_in g.rows (named_by c) x) g.channels)
unfolding is_active reached_in
active_reached g x = ap (λ b. is_row g x && b) (channels_any g.rows g.channels x)

pub showing_reached : (g : GraphState) (x : ℕ) → is_showing g x ≡ (is_some (find (is_at x) g.rows)
    && (list_any (λ c. reached_in g.rows (named_by c) x) g.channels
    || reached_in g.rows (option_to_list (preview_row g)) x))
unfolding is_showing reached_in
showing_reached g x = ap (λ b. is_row g x && b)
    (reached_both g.rows (channel_roots g) (option_to_list (preview_row g)) x
    ∙ ap (λ b. b || reached_in g.rows (option_to_list (preview_row g)) x)
    (channels_any g.rows g.channels x))
