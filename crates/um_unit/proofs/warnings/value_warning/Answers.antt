use Rattle.std.proofs.Common.{◌≡◌, [], ◌∷◌, option_copied, refl, None, inl, inr, ap, ◌∙◌, string_bytes}
use Rattle.std.proofs.lemmas.Result.{IfOk-weaker}
use Rattle.um_model.specs.Names.{is_unit_name}
use Rattle.um_model.specs.Readings.{names_reading}
use Rattle.um_model.specs.Units.{is_alias_for, value_warning}
use Rattle.um_model.specs.declared.units.ValueKind.TheVariants as kinds
use Rattle.um_unit.specs.Readings.{first_warning, value_reading}
use Rattle.um_unit.specs.View.{said_of}
use Rattle.um_unit.proofs.ReadingLemmas.{seen_unread, seen_warning, warned_as}
use Rattle.um_value.specs.ExitSet.{holds}
use Rattle.um_value.specs.Spans.{micros_in}
use Rattle.um_words.specs.Commands.{commands_seen}
use Rattle.um_words.specs.Environment.{variables_of}
use Rattle.um_unit.proofs.warnings.value_warning.Goals as goal

pub returns-in_ok-text_reading-in-Text : goal.returns-in_ok-text_reading-in-Text
returns-in_ok-text_reading-in-Text c =
    warned_as c.args.unit.now c.args.value.now c.args.kind kinds.Text _ c.in-Text.is
    (c.warning_in.ensures ∙ seen_warning string_bytes c.in_ok-text_reading-in-Text.field-0 ∙ ap (λ r. first_warning (r ∷ [])) c.in_ok-text_reading-in-Text.ensures)

pub returns-in_ok-commands_reading-in-Commands : goal.returns-in_ok-commands_reading-in-Commands
returns-in_ok-commands_reading-in-Commands c =
    warned_as c.args.unit.now c.args.value.now c.args.kind kinds.Commands _ c.in-Commands.is
    (c.warning_in-in-Commands.ensures ∙ seen_warning (λ all. commands_seen all.items) c.in_ok-commands_reading-in-Commands.field-0 ∙ ap (λ r. first_warning (r ∷ [])) c.in_ok-commands_reading-in-Commands.ensures)

pub returns-in_ok-environment_reading-in-Environment : goal.returns-in_ok-environment_reading-in-Environment
returns-in_ok-environment_reading-in-Environment c =
    warned_as c.args.unit.now c.args.value.now c.args.kind kinds.Environment _ c.in-Environment.is
    (c.warning_in-in-Environment.ensures ∙ seen_warning (λ all. variables_of all.items) c.in_ok-environment_reading-in-Environment.field-0 ∙ ap (λ r. first_warning (r ∷ [])) c.in_ok-environment_reading-in-Environment.ensures)

pub returns-in-Units : goal.returns-in-Units
returns-in-Units c =
    IfOk-weaker c.names_warning.result (λ w. w ≡ first_warning (names_reading is_unit_name c.args.unit.now c.args.value.now))
    (λ w. w ≡ value_warning c.args.unit.now c.args.kind c.args.value.now) (λ w e. warned_as c.args.unit.now c.args.value.now c.args.kind kinds.Units w c.in-Units.is e)
    c.names_warning.ensures

pub returns-in-Aliases : goal.returns-in-Aliases
returns-in-Aliases c =
    IfOk-weaker c.names_warning-in-Aliases.result (λ w. w ≡ first_warning (names_reading (is_alias_for c.args.unit.now) c.args.unit.now c.args.value.now))
    (λ w. w ≡ value_warning c.args.unit.now c.args.kind c.args.value.now) (λ w e. warned_as c.args.unit.now c.args.value.now c.args.kind kinds.Aliases w c.in-Aliases.is e)
    c.names_warning-in-Aliases.ensures

pub returns-in-Instance : goal.returns-in-Instance
returns-in-Instance c =
    warned_as c.args.unit.now c.args.value.now c.args.kind kinds.Instance _ c.in-Instance.is
    (c.unread.ensures ∙ seen_unread option_copied c.default_instance_in.result ∙ ap (λ o. first_warning (value_reading o ∷ [])) c.default_instance_in.ensures)

pub returns-in-Truth : goal.returns-in-Truth
returns-in-Truth c =
    warned_as c.args.unit.now c.args.value.now c.args.kind kinds.Truth _ c.in-Truth.is
    (c.unread-in-Truth.ensures ∙ ap (λ o. first_warning (value_reading o ∷ [])) c.boolean.ensures)

pub returns-in-Span : goal.returns-in-Span
returns-in-Span c =
    warned_as c.args.unit.now c.args.value.now c.args.kind kinds.Span _ c.in-Span.is
    (c.unread-in-Span.ensures ∙ seen_unread micros_in c.span.result ∙ ap (λ o. first_warning (value_reading o ∷ [])) c.span.ensures)

pub returns-in-Number : goal.returns-in-Number
returns-in-Number c =
    warned_as c.args.unit.now c.args.value.now c.args.kind kinds.Number _ c.in-Number.is
    (c.unread-in-Number.ensures ∙ ap (λ o. first_warning (value_reading o ∷ [])) c.number.ensures)

pub returns-in-Exits : goal.returns-in-Exits
returns-in-Exits c =
    warned_as c.args.unit.now c.args.value.now c.args.kind kinds.Exits _ c.in-Exits.is
    (c.unread-in-Exits.ensures ∙ seen_unread holds c.exit_set.result ∙ ap (λ o. first_warning (value_reading o ∷ [])) c.exit_set.ensures)

pub returns-in-Policy : goal.returns-in-Policy
returns-in-Policy c =
    warned_as c.args.unit.now c.args.value.now c.args.kind kinds.Policy _ c.in-Policy.is
    (c.unread-in-Policy.ensures ∙ ap (λ o. first_warning (value_reading o ∷ [])) c.restart.ensures)

pub returns-in-ServiceType : goal.returns-in-ServiceType
returns-in-ServiceType c =
    warned_as c.args.unit.now c.args.value.now c.args.kind kinds.ServiceType _ c.in-ServiceType.is
    (c.unread-in-ServiceType.ensures ∙ seen_unread said_of c.type_said.result ∙ ap (λ o. first_warning (value_reading o ∷ [])) c.type_said.ensures)

pub returns-in-Unused : goal.returns-in-Unused
returns-in-Unused c = elim c.in-Unused.is as (λ _. None ≡ value_warning c.args.unit.now c.args.kind c.args.value.now) [
  | inl is ↦ warned_as c.args.unit.now c.args.value.now c.args.kind kinds.Unused None is refl
  | inr is ↦ warned_as c.args.unit.now c.args.value.now c.args.kind kinds.Refused None is refl
]
