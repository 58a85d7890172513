use Rattle.std.proofs.Common.{rules, arith, ◌≡◌, ◌∙◌, sym, ap, subst, ◌+◌, ◌<◌, ◌≤◌, [], ◌∷◌, ◌++◌, take, map, length, get_or}
use Rattle.std.proofs.lemmas.List.{take_all, take_more}
use Rattle.std.proofs.lemmas.Result.{on_ok_weaker}
use Rattle.mix_json.specs.Growing.{after_key, as_field, close_list, close_object, more_field, more_fields, more_item, more_items, open_list, open_object}
use Rattle.mix_json.proofs.BackLemmas.{AllBack, AllBack-push, MembersBack, MembersBack-push, back_list, back_obj}
use Rattle.mix_json.proofs.TextLemmas.{closed_list, closed_members, keyed, members_push, more_items_push}
use Rattle.mix_json.proofs.pieces.+put.Goals as goal

-- one more item
pub put_items-loop-item-preserved : goal.put_items-loop-item-preserved
put_items-loop-item-preserved t c =
    let l = c.loop-item in
    let xs = c.args.items.now in
    let x = c.item-item.result in
    let start = open_list c.args.out.now.tokens in
    let more : take (l.item-index + 1) xs ≡ take l.item-index xs ++ x ∷ [] = take_more xs l.item-index x (omega arith) ∙ ap (λ y. take l.item-index xs ++ y ∷ []) (sym c.item-item.is) in
    record {
      tokens = c.in_ok-put.ensures.tokens ∙ ap (more_item x) l.invariant.tokens ∙ sym (ap (λ ys. more_items ys start) more ∙ more_items_push (take l.item-index xs) x start);
      before = search rules;
      back = subst AllBack (sym more) (AllBack-push (take l.item-index xs) x l.invariant.back c.in_ok-put.ensures.back);
    }

-- one more member
pub put_members-loop-member-preserved : goal.put_members-loop-member-preserved
put_members-loop-member-preserved t c =
    let l = c.loop-member in
    let ms = c.args.members.now in
    let m = c.member-item.result in
    let start = open_object c.args.out.now.tokens in
    let within : l.member-index < length ms = search rules in
    let here : get_or ms l.member-index m ≡ m = search rules in
    let more : take (l.member-index + 1) ms ≡ take l.member-index ms ++ m ∷ [] = take_more ms l.member-index m within ∙ ap (λ y. take l.member-index ms ++ y ∷ []) here in
    let keyed_is = c.in_ok-put_key.ensures.tokens ∙ ap (λ k. after_key k l.out.tokens) c.as_str.ensures.value in
    record {
      tokens = c.in_ok-put.ensures.tokens ∙ ap (more_item m.value) keyed_is ∙ keyed m.key m.value l.out.tokens ∙ ap (more_field m.key m.value) l.invariant.tokens ∙ sym (ap (λ ys. more_fields (map as_field ys) start) more ∙ members_push (take l.member-index ms) m start);
      before = search rules;
      back = subst MembersBack (sym more) (MembersBack-push (take l.member-index ms) m l.invariant.back c.in_ok-put.ensures.back);
    }

-- all items, and the list closed
pub put_items-returns-clause-tokens : goal.put_items-returns-clause-tokens
put_items-returns-clause-tokens t c =
    let l = c.loop-item in
    let xs = c.args.items.now in
    let start = c.args.out.now.tokens in
    let all : take l.item-index xs ≡ xs = take_all l.item-index xs (omega arith) in
    on_ok_weaker c.end_list.result
    (λ e. e ∙ ap close_list (l.invariant.tokens ∙ ap (λ ys. more_items ys (open_list start)) all) ∙ closed_list xs start)
    c.end_list.ensures.tokens

pub put_items-returns-clause-back : goal.put_items-returns-clause-back
put_items-returns-clause-back t c =
    let l = c.loop-item in
    let xs = c.args.items.now in
    let all : take l.item-index xs ≡ xs = take_all l.item-index xs (omega arith) in
    on_ok_weaker c.end_list.result (λ e. back_list xs (subst AllBack all l.invariant.back)) c.end_list.ensures.tokens

-- all members, and the object closed
pub put_members-returns-clause-tokens : goal.put_members-returns-clause-tokens
put_members-returns-clause-tokens t c =
    let l = c.loop-member in
    let ms = c.args.members.now in
    let start = c.args.out.now.tokens in
    let same : c.as_slice-member-items.result.now ≡ ms = c.as_slice-member-items.ensures.value in
    let past : length ms ≤ l.member-index = subst (λ xs. length xs ≤ l.member-index) same c.loop-member-test.false in
    let all : take l.member-index ms ≡ ms = take_all l.member-index ms past in
    on_ok_weaker c.end_object.result
    (λ e. e ∙ ap close_object (l.invariant.tokens ∙ ap (λ ys. more_fields (map as_field ys) (open_object start)) all) ∙ closed_members ms start c.as_slice-member-items.ensures.rising)
    c.end_object.ensures.tokens

pub put_members-returns-clause-back : goal.put_members-returns-clause-back
put_members-returns-clause-back t c =
    let l = c.loop-member in
    let ms = c.args.members.now in
    let same : c.as_slice-member-items.result.now ≡ ms = c.as_slice-member-items.ensures.value in
    let past : length ms ≤ l.member-index = subst (λ xs. length xs ≤ l.member-index) same c.loop-member-test.false in
    let all : take l.member-index ms ≡ ms = take_all l.member-index ms past in
    on_ok_weaker c.end_object.result (λ e. back_obj ms c.as_slice-member-items.ensures.rising (subst MembersBack all l.invariant.back)) c.end_object.ensures.tokens
