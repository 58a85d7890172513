-- The entries of scenes one by one, and the parts of a list of scenes.
use Rattle.std.proofs.Common.{◌≡◌, ◌∙◌, ℕ, zero, suc, ◌+◌, ◌<◌, List, [], ◌∷◌, ◌++◌, length, drop}
use Rattle.std.proofs.Common.{Some, None, refl, sym, ap, arith}
use Rattle.std.specs.List.{slice_get}
use Rattle.std.proofs.Math.Seq.{drop-cons}
use Rattle.std.proofs.lemmas.List.{append-nil, append_assoc}
use Rattle.std.proofs.lemmas.Option.{slice_get_within, get_or_from_slice_get}
use Rattle.mix_base.specs.declared.json.Json.{Json}
use Rattle.mix_base.specs.declared.json.Json as json
use Rattle.mix_base.specs.Json.{Object}
use Rattle.mix_json.specs.Trees.{obj_of, put_fields, with_field}
use Rattle.mix_model.specs.Program.{target_of}
use Rattle.mix_model.specs.State.{GraphState, StudioState}
use Rattle.mix_req_scenes.specs.GetSceneList.{preview_fields, program_fields, scene_entries}
use Rattle.mix_req_scenes.specs.GetSceneList.{scene_entry, scene_list_answer, scenes_fields}

-- what is left begins with what stands there
left_begins : {X : Type 0} (xs : List X) (i : ℕ) (x : X) → slice_get xs i ≡ Some x →
    drop i xs ≡ x ∷ drop (i + 1) xs
left_begins xs i x at =
    let after : suc i ≡ i + 1 = omega arith in
    drop-cons xs i x (slice_get_within xs i x at)
    ∙ ap (λ y. y ∷ drop (suc i) xs) (get_or_from_slice_get xs i x x at)
    ∙ ap (λ j. x ∷ drop j xs) after

-- past the end nothing is left
nothing_left : {X : Type 0} (xs : List X) (i : ℕ) → slice_get xs i ≡ None → drop i xs ≡ []
nothing_left [] zero at = refl
nothing_left [] (suc i) at = refl
nothing_left (x ∷ xs) zero at = cc
nothing_left (x ∷ xs) (suc i) at = nothing_left xs i at

-- what was pushed is the entry, where its fields are
pub pushed : (items new : List Json) (entry fields : Object) →
    new ≡ items ++ json.Obj entry ∷ [] → entry ≡ fields → new ≡ items ++ json.Obj fields ∷ []
pushed items new entry fields is same = is ∙ ap (λ f. items ++ json.Obj f ∷ []) same

-- one entry more, and the entries of what is left
pub entries_more : (g : GraphState) (xs : List ℕ) (i x : ℕ) (items new all : List Json) →
    slice_get xs i ≡ Some x → new ≡ items ++ scene_entry g i x ∷ [] →
    items ++ scene_entries g i (drop i xs) ≡ all →
    new ++ scene_entries g (i + 1) (drop (i + 1) xs) ≡ all
entries_more g xs i x items new all at is before =
    ap (λ l. l ++ scene_entries g (i + 1) (drop (i + 1) xs)) is
    ∙ append_assoc items (scene_entry g i x ∷ []) (scene_entries g (i + 1) (drop (i + 1) xs))
    ∙ ap (λ l. items ++ scene_entries g i l) (sym (left_begins xs i x at)) ∙ before

-- at the end the entries so far are all
pub entries_end : (g : GraphState) (xs : List ℕ) (i : ℕ) (items all : List Json) →
    slice_get xs i ≡ None → items ++ scene_entries g i (drop i xs) ≡ all → items ≡ all
entries_end g xs i items all at before =
    sym (append-nil items) ∙ ap (λ l. items ++ scene_entries g i l) (sym (nothing_left xs i at))
    ∙ before

-- a scene is given where there is one
pub within_more : (xs : List ℕ) (i x : ℕ) → slice_get xs i ≡ Some x → i < length xs
within_more xs i x at = slice_get_within xs i x at

put_both : (xs ys : List (List ℕ × Json)) (obj : Object) →
    put_fields (xs ++ ys) obj ≡ put_fields ys (put_fields xs obj)
put_both [] ys obj = refl
put_both (x ∷ xs) ys obj = put_both xs ys (with_field x.0 x.1 obj)

-- fields that are put in by three parts, one after the other, are all of them
pub three_parts : (xs ys zs : List (List ℕ × Json)) →
    put_fields zs (put_fields ys (put_fields xs [])) ≡ obj_of (xs ++ (ys ++ zs))
three_parts xs ys zs =
    sym (put_both xs (ys ++ zs) [] ∙ put_both ys zs (put_fields xs []))

-- the answer by its three parts
pub listed : (s : StudioState) (none a b c all : Object) → none ≡ [] →
    a ≡ put_fields (preview_fields s.graph) none →
    b ≡ put_fields (program_fields s.graph (target_of s.program.shown)) a →
    c ≡ put_fields (scenes_fields s.graph) b → all ≡ c → json.Obj all ≡ scene_list_answer s
unfolding scene_list_answer
listed s none a b c all empty first second third is =
    let xs : List (List ℕ × Json) = preview_fields s.graph in
    let ys : List (List ℕ × Json) = program_fields s.graph (target_of s.program.shown) in
    let zs : List (List ℕ × Json) = scenes_fields s.graph in
    ap json.Obj (is ∙ third ∙ ap (put_fields zs) (second
    ∙ ap (put_fields ys) (first ∙ ap (put_fields xs) empty)) ∙ three_parts xs ys zs)
