use Rattle.std.proofs.Common.{◌∙◌, [], ap, map, option_map, string_bytes, sym, unwrap_or}
use Rattle.std.proofs.lemmas.Result.{IfOk-weaker}
use Rattle.clap.specs.Words.{found_of}
use Rattle.clap.proofs.WalkLemmas.{raw_values-rows}
use Rattle.pyc_console.specs.Words.{files_id}
use Rattle.pyc_console.proofs.words.found_files.Goals as goal

pub returns-in-Some : goal.returns-in-Some
returns-in-Some c =
    let texts_are = sym (raw_values-rows (found_of c.args.found.now) files_id) ∙ sym c.get_strs.ensures ∙ ap (option_map (λ s. map (λ v. v.now) s.now)) c.in-Some.is in
    IfOk-weaker c.owned.result _ _ (λ r h. h ∙ sym (ap (λ t. unwrap_or t []) texts_are)) c.owned.ensures

pub returns-in-None : goal.returns-in-None
returns-in-None c =
    let none_are = sym (raw_values-rows (found_of c.args.found.now) files_id) ∙ sym c.get_strs.ensures ∙ ap (option_map (λ s. map (λ v. v.now) s.now)) c.in-None.is in
    ap (map string_bytes) c.new.ensures.items ∙ sym (ap (λ t. unwrap_or t []) none_are)
