-- No contract of a trait's method allows two outcomes, whatever the type: each is an equation, or one for the digits of a set, which tell it. Assumes nothing.
use Rattle.choice.proofs.Determined.{by_equation, by_law, by_one}
use Rattle.kinds.specs.Kinds.{is_in}
use Rattle.promises.specs.Traits.{TraitsDetermined, NumberedMeans}

pub traits_determined : TraitsDetermined
traits_determined =
    record {
      wide = λ s κs. by_law _ (λ a r s p. p.0);
      narrow = λ s told κs. by_one s.digits.digits told _;
      number = λ t κs. by_equation _;
      is_known = λ t κs. by_equation _;
      is_in = λ t κs. by_equation _;
      switched = λ t told κs. by_one t.set.digits.digits told _;
    }

pub numbered_means : NumberedMeans
unfolding is_in
numbered_means =
    record {
      known_application_law = λ κs a r s p. p;
      in_applications = λ κs a r s p. p;
      switched_application = λ κs a r s p. p;
      known_app_law = λ κs a r s p. p;
      in_apps = λ κs a r s p. p;
      switched_app = λ κs a r s p. p;
      in_capabilities = λ κs a r s p. p;
      switched_capability = λ κs a r s p. p;
    }
